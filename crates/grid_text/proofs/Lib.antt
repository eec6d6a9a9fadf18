mod CellLaws
mod Examples
