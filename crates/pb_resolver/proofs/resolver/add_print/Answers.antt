use Rattle.pb_names.specs.Resolves.{print}
use Rattle.pb_names.proofs.Views.{numbered-Print}
use Rattle.pb_resolver.proofs.resolver.add_print.Goals as goal

pub returns : goal.returns
returns g c rs n = record {
  made = _;
  pushed = c.in_ok-push.ensures.items;
  resolves = rw numbered-Print (print _ _ _ c.in_ok-value.ensures);
  numbered = rw numbered-Print tt;
}
