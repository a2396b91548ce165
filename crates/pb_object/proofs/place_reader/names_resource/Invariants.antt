use Rattle.std.proofs.Common.{◌≡◌, ◌+◌, ◌*◌, length, map}
use Rattle.pb_object.specs.Instructions.{names_resource}
use Rattle.pb_object.proofs.place_reader.names_resource.Given as goal

abbrev pub invariant-loop : goal.invariant-loop
invariant-loop l = record {
  same : names_resource (map (λ w. w.now) l.words) l.resource ≡ names_resource (map (λ w. w.now) l.rest) l.resource;
  left : length l.rest + 2 * l.counter ≡ length l.words;
}
