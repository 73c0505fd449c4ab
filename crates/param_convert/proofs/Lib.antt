pub mod VehicleRules
pub mod NewRows
pub mod OldValues
pub mod Due
pub mod LowBytes
pub mod ConvertSteps
