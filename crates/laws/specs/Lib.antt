pub mod First
pub mod Lists
pub mod Numbers
pub mod Sorting
