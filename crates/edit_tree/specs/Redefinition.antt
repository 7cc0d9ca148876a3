-- How a place was defined, in one value that decides what may still be added to it.
use Rattle.std.specs.Prelude.{Bool, true, false}
use Rattle.edit_tree.specs.declared.nodes.DefinedBy.{DefinedBy}
use Rattle.edit_tree.specs.declared.nodes.DefinedBy.TheVariants.{Dotted, Value, Super, Header, Array, Element}
use Rattle.edit_tree.specs.Assertions.{Kind, dotted, leaf, super, header_kind, array_kind, element_kind}

-- how an assertion of this kind defines its place
abbrev pub defined_by : Kind → DefinedBy
defined_by (dotted b) = Dotted
defined_by (leaf v) = Value
defined_by super = Super
defined_by header_kind = Header
defined_by array_kind = Array
defined_by element_kind = Element

-- a place defined in the first way may be extended in the second
abbrev pub can_extend : DefinedBy → DefinedBy → Bool
can_extend Dotted Dotted = true
can_extend Dotted Super = true
can_extend Super Dotted = true
can_extend Header Super = true
can_extend Super Header = true
can_extend Super Super = true
can_extend Super Element = true
can_extend Element Super = true
can_extend Array Array = true
can_extend _ _ = false

-- how a place counts as defined after it was extended; a super-table takes over the later definition
abbrev pub merged_definition : DefinedBy → DefinedBy → DefinedBy
merged_definition Super t = t
merged_definition s t = s

-- the place is defined by a value or a header of its own
abbrev pub is_own : DefinedBy → Bool
is_own Value = true
is_own Header = true
is_own Element = true
is_own _ = false
