-- What it is that statements are carried out, one behind the other, and each is answered.
use Rattle.std.specs.Prelude.{◌≡◌, true, List}
use Rattle.std.specs.List.{list_all}
use Rattle.ts_command.specs.declared.command.Command.{Command}
use Rattle.ts_model.specs.Catalogue.{Catalogue}
use Rattle.ts_answer.specs.Answer.{State, resting, after, replies}
use Rattle.ts_answer.specs.Outcomes.{ends_with_ok, are_answered}

-- none is refused, the last line of each reply begins with `ok`, and they lead from one state to another
pub record AreCarriedOut (commands : List Command) (first last : State) : Type 0 where
  pub answered : list_all (λ yes. yes) (are_answered first commands) ≡ true
  pub said : list_all ends_with_ok (replies first commands) ≡ true
  pub comes : after first commands ≡ last

-- they make one catalogue of another, and leave no transaction open
abbrev pub Make : List Command → Catalogue → Catalogue → Type 0
Make commands before made = AreCarriedOut commands (resting before) (resting made)
