pub mod FirstLeast
