-- The laws of a split: its checks, the string as the one piece to begin with, and the pieces that are handed over.
mod FlagsCopied
mod PiecesWritten
mod SplitAnswers
mod SplitStrings
