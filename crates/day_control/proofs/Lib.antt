mod AnswerLemmas
mod FullLines
mod ServeLemmas
