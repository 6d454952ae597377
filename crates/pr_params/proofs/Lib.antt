pub mod DescriptorLaws
pub mod IdLaws
pub mod ListLaws
pub mod PairLaws
