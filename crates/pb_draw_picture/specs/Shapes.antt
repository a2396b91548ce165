-- Shapes as they are seen: with their texts as bytes.
use Rattle.std.specs.Prelude.{ℕ, ◌-◌, nat_lt, cond, List, [], ◌∷◌}
use Rattle.pb_draw_picture.specs.declared.picture.Label.{Label}
use Rattle.pb_draw_picture.specs.declared.picture.LabelKind.{LabelKind}
use Rattle.pb_draw_picture.specs.declared.picture.Rect.{Rect}
use Rattle.pb_draw_picture.specs.declared.picture.RectKind.{RectKind}
use Rattle.pb_draw_picture.specs.declared.picture.Tick.{Tick}
use Rattle.pb_draw_picture.specs.declared.picture.TickKind.{TickKind}
use Rattle.pb_draw_picture.specs.declared.picture.Wait.{Wait}

-- a text at a place
pub record Text : Type 0 where
  pub kind : LabelKind
  pub x : ℕ
  pub y : ℕ
  pub text : List ℕ

abbrev pub text_of : Label → Text
text_of l = record { kind = l.kind; x = l.x; y = l.y; text = l.text.items }

-- the mark of an event at a place, with its line and the text beside it
pub record Sign : Type 0 where
  pub kind : TickKind
  pub x : ℕ
  pub y : ℕ
  pub title : List ℕ
  pub label : List ℕ
  pub label_x : ℕ
  pub label_y : ℕ

abbrev pub sign_of : Tick → Sign
sign_of t = record {
  kind = t.kind;
  x = t.x;
  y = t.y;
  title = t.title.items;
  label = t.label.items;
  label_x = t.label_x;
  label_y = t.label_y;
}

-- the line of an arm that is kept back, with its title and the text above it
pub record Stretch : Type 0 where
  pub rect : Rect
  pub title : List ℕ
  pub label : List ℕ
  pub label_x : ℕ
  pub label_y : ℕ

abbrev pub stretch_of : Wait → Stretch
stretch_of w = record {
  rect = w.rect;
  title = w.title.items;
  label = w.label.items;
  label_x = w.label_x;
  label_y = w.label_y;
}

-- a rectangle from one place to another
abbrev pub rect_to : RectKind → (x to y height : ℕ) → Rect
rect_to kind x to y height = record { kind = kind; x = x; y = y; width = to - x; height = height }

-- a rectangle, if it has a width
abbrev pub if_wide : Rect → List Rect
if_wide r = cond (nat_lt 0 r.width) (r ∷ []) []
