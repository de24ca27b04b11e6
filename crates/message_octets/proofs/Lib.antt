mod XnAnswers
mod Read
