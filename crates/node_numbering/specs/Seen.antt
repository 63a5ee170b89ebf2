-- Entries as the search for the next node holds them.
use Rattle.std.specs.Prelude.{Option}
use Rattle.std.specs.Option.{option_map}
use Rattle.node_numbering.specs.declared.meeting.Entry.{Entry}
use Rattle.node_numbering.specs.Meeting.{EntryView}

abbrev pub seen : Entry → EntryView
seen entry = record { dir = entry.dir; name = entry.name.now; node = entry.node }

abbrev pub seen_entry : Option Entry → Option EntryView
seen_entry entry = option_map seen entry
