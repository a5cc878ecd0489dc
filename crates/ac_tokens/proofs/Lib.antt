pub mod ByteKinds
pub mod Runs
pub mod Digits
pub mod Placed
pub mod Scan
pub mod Cuts
pub mod OneCut
pub mod OneFault
