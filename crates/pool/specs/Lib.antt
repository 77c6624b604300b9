pub mod Pool
pub mod PoolWire
pub mod Pools
