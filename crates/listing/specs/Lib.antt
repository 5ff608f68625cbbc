pub mod Text
pub mod Printed
pub mod Appended
pub mod Cases
