mod Composing
mod Leaves
