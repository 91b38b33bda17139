pub mod CurveLaws
pub mod DifferenceLaws
