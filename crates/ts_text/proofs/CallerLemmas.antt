-- What the crates above cite, by subject.
-- digits
pub use Rattle.ts_text.proofs.DigitLemmas.{digits-le, digits_kept, few_room, ten_room}
-- fronts, and that of patterns, calendars and lists of aggregates
pub use Rattle.ts_text.proofs.FrontLemmas.{IsFront, IsSign}
pub use Rattle.ts_text.proofs.PlainLemmas.{blank_ends_word, digits_stand, plain_ending, plain_laws, plain_sign, run_keeps, run_stays, token_is, word_stands}
-- blanks and tokens, and what may stand behind them
pub use Rattle.ts_text.proofs.SpellingLemmas.{Stops, blanked, blanks_before, split_same, unblanked-le, unblanked_past, unblanked_shows, unblanked_twice}
pub use Rattle.ts_text.proofs.FollowLemmas.{Alike, Carries, Follows, StartsBlank, begins, bytes_taking, heads_same, stops_here, stops-le}
-- phrases: what they give and take, and where they are refused
pub use Rattle.ts_text.proofs.PhraseLemmas.{Any, Goes, Shrinks, Yields, YieldsIn, chain, chain_in, given, given_in, in_bytes, shrinks_of, yields_same}
pub use Rattle.ts_text.proofs.TokenLemmas.{Example, of_token}
pub use Rattle.ts_text.proofs.SignLemmas.{behind_yields, brackets_yield, made_yields, sign_at, sign_end, sign_is, sign_left, sign_other, sign_shrinks, sign_yields}
-- phrases that a sign decides, and phrases that go on behind signs
pub use Rattle.ts_text.proofs.OnwardLemmas.{by_sign_none, by_sign_some, if_sign_shrinks, joined_shrinks, made_shrinks, one_more, onward_enough, onward_none, onward_some, sign_absent, sign_there}
-- lists
pub use Rattle.ts_text.proofs.ListLemmas.{IsListed, closed_yields, exactly_refused, list_refused, listed_found, listed_read, onto_end, onto_more, onto_nothing, repeated_more, repeated_none}
-- whole texts, and their places
pub use Rattle.ts_text.proofs.PlaceLemmas.{IsEnding, found-holds, in_place, in_places, is_its_tokens, left-le}
-- texts as tokens with blanks between them
pub use Rattle.ts_text.proofs.PartedLemmas.{IsSolid, StandsBefore, StopsWord, are_blanks-append, before-sign, before-then, before-token, before-word, bind-ok, digits-end, end-found, end-read, ends-token, pair-parts, parted-blanks, parted-here, parted-rest, parted-space, parted-token, sign-found, sign-read, stops-word, token-first, token-found, token-read, word-found, word-read}
