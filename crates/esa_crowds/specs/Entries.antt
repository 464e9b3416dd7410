-- What the threshold sees of a list of items.
use Rattle.std.specs.Prelude.{ℕ, suc, List, [], ◌∷◌, take, drop, Option, Some, None}
use Rattle.std.specs.List.{cons_option}
use Rattle.esa_hmac.specs.Hmac.{hmac}
use Rattle.esa_params.specs.declared.form.Form.{Form}
use Rattle.esa_params.specs.Form.{inner_length}
use Rattle.esa_report.specs.declared.item.Item.{Item}
use Rattle.esa_report.specs.declared.item.Kind.{Kind}
use Rattle.esa_report.specs.declared.item.Kind.TheVariants.{Dummy, Real, Malformed}

-- a real record: the id of its crowd, the tag of its inner envelope, the inner envelope, and its position in the list
pub record Entry : Type 0 where
  pub crowd : List ℕ
  pub tag : List ℕ
  pub inner : List ℕ
  pub position : ℕ

-- the crowd id and the inner envelope of an outer plain text
abbrev pub crowd_in : List ℕ → List ℕ
crowd_in body = take 32 body

abbrev pub inner_in : Form → List ℕ → List ℕ
inner_in form body = take (inner_length form) (drop 32 body)

-- the entry of an outer plain text at a position. The tag is the code of the inner envelope under the key
abbrev pub entry_in : Form → List ℕ → ℕ → List ℕ → Entry
entry_in form key position body =
    record { crowd = crowd_in body; tag = hmac key (inner_in form body); inner = inner_in form body; position = position }

-- only a real item has one
abbrev pub if_real : {A : Type 0} → Kind → A → Option A
if_real Real a = Some a
if_real Dummy a = None
if_real Malformed a = None

-- the entry of an item at a position
abbrev pub entry_of : Form → List ℕ → ℕ → Item → Option Entry
entry_of form key position item = if_real item.kind (entry_in form key position item.body)

-- the entries of a list whose first item stands at a position
abbrev pub entries_from : Form → List ℕ → ℕ → List Item → List Entry
entries_from form key position [] = []
entries_from form key position (item ∷ items) =
    cons_option (entry_of form key position item) (entries_from form key (suc position) items)

-- the entries of a list
abbrev pub entries : Form → List ℕ → List Item → List Entry
entries form key items = entries_from form key 0 items
