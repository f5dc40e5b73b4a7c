pub mod RefusalText
pub mod RejectedText
