pub mod RowFacts
mod RoomFacts
mod AnswerFacts
mod TimesFacts
mod SumFacts
