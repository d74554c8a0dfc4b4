pub mod Numbered
pub mod Replaced
pub mod Filled
pub mod Lowest
pub mod Readdressed
pub mod Sending
pub mod UnderWay
