-- What is lent.
use mir.Syntax.{named}
use denote.Ref.{NamedLft}
use Rattle.std.specs.Prelude.{List, []}
use Rattle.speedy_read.specs.declared.many.Many.{Many}
use Rattle.speedy_read.specs.declared.many.Many.TheVariants as many

-- n values, where what is lent shows its own
abbrev pub many_items : {W T : Type 0} → (W → List T) → Many W T → List T
many_items shown (many.Made w) = shown w
many_items shown (many.Owned values) = values.items

-- the lifetime that a reader's type names, in the signature of a call that lends of it
abbrev pub readers_lifetime : NamedLft
readers_lifetime = record { mir = named 1; lft = [] }

-- and the one of a context that it borrows, where its type names both
abbrev pub contexts_lifetime : NamedLft
contexts_lifetime = record { mir = named 2; lft = [] }
