mod Appended
mod Disjuncts
mod Names
mod Nested
mod Scoped
mod Shapes
mod Views
mod Widths
