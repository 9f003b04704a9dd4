-- A change of the places of a series.
use Rattle.std.specs.Prelude.{◌+◌, List, [], ◌∷◌, ◌++◌, take, drop}
use Rattle.ts_space.specs.declared.place.Place.{Place}
use Rattle.ts_space.specs.declared.moved.Come.{Come}
use Rattle.ts_space.specs.declared.moved.Come.TheVariants.{Nothing, One, Two}
use Rattle.ts_space.specs.declared.moved.Moved.{Moved}

-- the places that come
abbrev pub list_of : Come → List Place
list_of Nothing = []
list_of (One place) = place ∷ []
list_of (Two first second) = first ∷ second ∷ []

-- the places after a change: from an index on so many are gone, and others stand there
abbrev pub moved_to : Moved → List Place → List Place
moved_to moved places = take moved.index places ++ list_of moved.come ++ drop (moved.index + moved.gone) places
