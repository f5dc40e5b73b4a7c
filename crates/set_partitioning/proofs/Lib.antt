pub mod FirstCustomers
pub mod RouteOrders
