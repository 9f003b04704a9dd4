-- What the crates above cite, by subject.
-- tokens as a front, what ends a statement, and its signs
pub use Rattle.ts_tokens.proofs.FrontLemmas.{front_laws, front_ending, open_sign, close_sign, comma_sign}
-- how long numbers are
pub use Rattle.ts_tokens.proofs.TokenLengths.{number_token}
pub use Rattle.ts_tokens.proofs.NumberFormLemmas.{stops}
-- where texts end, and what they say
pub use Rattle.ts_tokens.proofs.TokenLemmas.{text_byte, single_quote, doubled_quote}
pub use Rattle.ts_tokens.proofs.TextLemmas.{said-le, undoubled-cons}
