pub mod Borders
pub mod Corners
pub mod EndLaws
mod Examples
pub mod FillerLaws
pub mod FlatLaws
pub mod GapLaws
pub mod HalvesFilled
pub mod Joins
pub mod KnownLaws
pub mod Looks
pub mod PlaneLaws
pub mod RootFilled
pub mod RowLaws
pub mod SideLaws
pub mod Theorems
pub mod Traced
pub mod Work
