pub mod Sizes
pub mod Profiles
pub mod Starting
pub mod StartRows
pub mod Stock
pub mod StockedDevices
pub mod StockRows
pub mod Devices
