pub mod First
pub mod Lists
pub mod Numbers
pub mod Cases
pub mod Sorting
pub mod Tests
