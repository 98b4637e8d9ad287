pub mod OwnSteps
