mod Filling
mod Overwriting
