pub mod Disk
pub mod Carried
pub mod Said
pub mod Code
pub mod Host
pub mod SoFar
pub mod Wired
pub mod Cases
