-- The objects of a catalogue: which of them a command writes, and which others it names.
use Rattle.std.specs.Prelude.{Bool, true, false, ◌&&◌, List, ◌++◌}
use Rattle.std.specs.Str.{bytes_eq}
use Rattle.std.specs.List.{list_any, flat_map}
use Rattle.ts_model.specs.declared.kind.Kind.{Kind}
use Rattle.ts_model.specs.declared.kind.Kind.TheVariants as kinds
use Rattle.ts_multi.specs.declared.object.Object.{Object}
use Rattle.ts_multi.specs.declared.object.Touched.{Touched}

-- one kind, and no other
abbrev pub same_kind : Kind → Kind → Bool
same_kind kinds.RowType kinds.RowType = true
same_kind kinds.Pattern kinds.Pattern = true
same_kind kinds.Calendar kinds.Calendar = true
same_kind kinds.Container kinds.Container = true
same_kind kinds.Series kinds.Series = true
same_kind a b = false

-- one object: of one kind, and of one name
abbrev pub same_object : Object → Object → Bool
same_object a b = same_kind a.kind b.kind && bytes_eq a.name b.name

-- the object is among these
abbrev pub has_object : Object → List Object → Bool
has_object object others = list_any (λ other. same_object other object) others

-- what these commands wrote, one behind the other
abbrev pub written : List Touched → List Object
written noted = flat_map (λ t. t.wrote) noted

-- what a command wrote or named
abbrev pub touched_by : Touched → List Object
touched_by t = t.wrote ++ t.named

-- one of these commands wrote or named the object
abbrev pub is_touched : Object → List Touched → Bool
is_touched object noted = list_any (λ t. has_object object (touched_by t)) noted

-- one of these objects was written or named by one of these commands
abbrev pub meets : List Object → List Touched → Bool
meets wrote noted = list_any (λ object. is_touched object noted) wrote
