pub mod KeyLaws
pub mod TableLaws
pub mod PutLaws
pub mod Steps
pub mod RaisedLaws
pub mod RoomForKeys
pub mod ManyLaws
