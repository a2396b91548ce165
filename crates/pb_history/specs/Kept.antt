-- Events that name their bundles by number. No public contract cites this file.
use Rattle.std.specs.Prelude.{ℕ, ◌-◌, ◌<◌, ◌≤◌, List, [], length, map, min, All, slice_index_or, ⊤, vec_len}
use Rattle.std.specs.Prelude.{vec_capacity}
use Rattle.pb_base.specs.declared.event.Event.{Event}
use Rattle.pb_base.specs.declared.event.Event.TheVariants as event
use Rattle.pb_base.specs.declared.pair.Pair.{Pair}
use Rattle.pb_history.specs.declared.events.KeptEvent.{KeptEvent}
use Rattle.pb_history.specs.declared.events.KeptEvent.TheVariants.{Granted, Returned, Printed, Faulted, Finished}
use Rattle.pb_history.specs.declared.events.Events.TheInside.{Inside}

-- events, and how many more there is room for
pub record EventRow : Type 0 where
  pub events : List Event
  pub room : ℕ

-- the event, with its bundle in the place of the bundle's number
abbrev pub whole : List (List Pair) → KeptEvent → Event
whole bundles (Granted pick bundle) = event.Granted pick (slice_index_or bundles bundle [])
whole bundles (Returned pick bundle) = event.Returned pick (slice_index_or bundles bundle [])
whole bundles (Printed pick value) = event.Printed pick value
whole bundles (Faulted pick kind) = event.Faulted pick kind
whole bundles (Finished process) = event.Finished process

-- the number of its bundle, if it has one, is below this count
abbrev pub HasBundle : ℕ → KeptEvent → Type 0
HasBundle count (Granted pick bundle) = bundle < count
HasBundle count (Returned pick bundle) = bundle < count
HasBundle count (Printed pick value) = ⊤
HasBundle count (Faulted pick kind) = ⊤
HasBundle count (Finished process) = ⊤

-- the events in memory, and their room: one more event may need one more bundle
abbrev pub events_in : Inside → EventRow
events_in e = record {
  events = map (whole e.bundles.items) e.events.items;
  room = min (vec_capacity e.events - vec_len e.events) (vec_capacity e.bundles - vec_len e.bundles);
}

-- each bundle that is named is there, and there are no more bundles than events
pub record AreKept (e : Inside) : Type 0 where
  pub named : All (HasBundle (length e.bundles.items)) e.events.items
  pub few : length e.bundles.items ≤ length e.events.items
