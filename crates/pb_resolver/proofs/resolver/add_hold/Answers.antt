use Rattle.pb_names.specs.Resolves.{hold}
use Rattle.pb_names.proofs.Views.{numbered-Hold}
use Rattle.pb_resolver.proofs.resolver.add_hold.Goals as goal

pub returns : goal.returns
returns g c is n a inside numbered = record {
  made = _;
  pushed = c.in_ok-push.ensures.items;
  resolves = rw numbered-Hold (hold _ _ _ _ _ c.number_hold-bundle.ensures inside);
  numbered = rw numbered-Hold numbered;
}
