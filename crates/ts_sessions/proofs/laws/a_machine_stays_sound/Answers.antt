use Rattle.ts_sessions.proofs.SoundLemmas.{stay_sound}
use Rattle.ts_sessions.proofs.laws.a_machine_stays_sound.Goals as goal

pub returns : goal.returns
returns c = stay_sound
