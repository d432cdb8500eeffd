mod BandFacts
mod TimetableFacts
