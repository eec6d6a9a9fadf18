pub mod Bounds
pub mod DrawerLaws
pub mod Eights
mod Examples
pub mod Leaves
pub mod NodeLaws
pub mod OldTrees
pub mod PaintLaws
pub mod Painted
pub mod RowParts
mod Scans
pub mod Stands
