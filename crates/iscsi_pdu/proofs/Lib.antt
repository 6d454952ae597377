pub mod LoginFlags
pub mod CommandFlags
pub mod DataIns
pub mod RequestsAgain
pub mod ResponsesAgain
pub mod Streams
