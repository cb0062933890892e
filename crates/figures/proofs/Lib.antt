mod Standing
mod WorkedAxes
