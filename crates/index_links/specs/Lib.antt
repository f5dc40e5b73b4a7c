pub mod Forest
pub mod HeapView
pub mod Links
pub mod Lists
pub mod Queue
pub mod RingsView
