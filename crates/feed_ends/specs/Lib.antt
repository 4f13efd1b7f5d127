pub mod Addresses
pub mod Faults
pub mod Reports
pub mod SocketFaults
