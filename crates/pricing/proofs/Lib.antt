mod Customers
mod Lawful
mod Fastest
mod ListFaults
mod Listed
