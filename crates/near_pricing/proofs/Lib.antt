mod Customers
mod Fastest
mod LabelRanges
mod Lawful
mod ListFaults
mod NoSteps
