-- What an item of a drawing begins with.
use Rattle.std.proofs.Common.{Bool, None, Option, Some, [], cond, false, is_some, refl, true, ◌∷◌, ◌≡◌}
use Rattle.st_reading.specs.Mark.{number}
use Rattle.st_reading.specs.Sign.{is}
use Rattle.st_reading.specs.declared.mark.Mark.{Mark}
use Rattle.st_reading.specs.declared.mark.Mark.TheVariants as marks
use Rattle.st_reading.specs.declared.sign.Sign.{Sign}
use Rattle.st_reading.specs.declared.sign.Sign.TheVariants as signs
use Rattle.diagram_reader.specs.Drawing.{item_in}
use Rattle.diagram_reader.specs.declared.item.Item.{Item}
use Rattle.diagram_reader.specs.declared.item.Item.TheVariants as items
use Rattle.st_reading.proofs.Choices.{first_of, none_chosen}
use Rattle.st_reading.proofs.Tokens.{alone, among, at_mark}

abbrev pub item_mark : Item → Mark
item_mark items.Terminal = marks.Terminal
item_mark items.Node = marks.Node
item_mark items.Edge = marks.Edge

abbrev pub Begins : Sign → Item → Type 0
Begins g item = is g (item_mark item) ≡ true

pub item_is : (g : Sign) (item : Item) → item_in g ≡ Some item → Begins g item
item_is g item h =
    first_of (Begins g) (is g marks.Terminal) items.Terminal item (cond (is g marks.Node) (Some items.Node) (cond (is g marks.Edge) (Some items.Edge) None)) (λ e. e)
    (λ h. first_of (Begins g) (is g marks.Node) items.Node item (cond (is g marks.Edge) (Some items.Edge) None) (λ e. e)
    (λ h. first_of (Begins g) (is g marks.Edge) items.Edge item None (λ e. e) (λ h. none_chosen (Begins g item) item h) h) h) h

pub item_found : (g : Sign) (item : Item) → Begins g item → item_in g ≡ Some item
unfolding number
item_found g items.Terminal h = at_mark item_in (Some items.Terminal) marks.Terminal refl g h
item_found g items.Node h = at_mark item_in (Some items.Node) marks.Node refl g h
item_found g items.Edge h = at_mark item_in (Some items.Edge) marks.Edge refl g h

abbrev pub brace : Sign → Bool
brace = among (marks.CloseBrace ∷ [])

pub no_item : (g : Sign) → brace g ≡ true → item_in g ≡ None
unfolding number
no_item g h = at_mark item_in None marks.CloseBrace refl g (alone marks.CloseBrace g h)

pub no_item_at_end : None ≡ item_in signs.Nothing
no_item_at_end = refl

pub is_free : {A : Type 0} (o : Option A) → is_some o ≡ false → o ≡ None
is_free None h = refl
is_free (Some x) h = absurd cc
