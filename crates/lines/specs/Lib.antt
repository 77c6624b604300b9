pub mod LineWire
pub mod LineSound
