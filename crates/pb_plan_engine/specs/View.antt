-- What a plan says, as it is held, seen as plain data.
use Rattle.std.specs.Prelude.{map}
use Rattle.pb_joint.specs.View.{full_name}
use Rattle.pb_plan_engine.specs.Sayings.{Saying, Refused, Unknown, Claim, Resource, Bottleneck, Order, Nest, NoRequestWaits, NoOrder}
use Rattle.pb_plan_engine.specs.Sayings.{TooLong, NoMemory}
use Rattle.pb_plan_engine.specs.declared.said.Said.{Said}
use Rattle.pb_plan_engine.specs.declared.said.Said.TheVariants as given

-- one thing that is said
abbrev pub said_view : Said → Saying
said_view (given.Refused refusal) = Refused refusal.text refusal.fault
said_view (given.Unknown name) = Unknown name.items
said_view (given.Claim claim) = Claim (full_name claim.process) claim.amount claim.resource.items claim.parts.items
said_view (given.Resource need) = Resource need.name.items need.capital need.least need.free
said_view (given.Bottleneck name) = Bottleneck name.items
said_view (given.Order names) = Order (map (λ name. name.items) names.items)
said_view (given.Nest nest) = Nest (full_name nest.process) nest.outer.items nest.outer_line nest.inner.items nest.inner_line
said_view given.NoRequestWaits = NoRequestWaits
said_view given.NoOrder = NoOrder
said_view given.TooLong = TooLong
said_view given.NoMemory = NoMemory
