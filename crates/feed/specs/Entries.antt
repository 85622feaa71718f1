-- The entries that a fixed array holds.
use Rattle.std.specs.Prelude.{List, take}
use Rattle.feed.specs.declared.entries.Entries.{Entries}

-- The first `count` of the array.
abbrev pub entries_of : {T : Type 0} → Entries T → List T
entries_of e = take e.count e.items
