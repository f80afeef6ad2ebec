-- Answers as JSON: a tree without fractions, the library's data for it, and its text.
use Rattle.std.specs.Prelude.{ℕ, Bool, false, List, [], ◌∷◌, ◌++◌, map, codes}
use Rattle.std.specs.Fmt.{digits}
use Rattle.serde_json.specs.Data as json
use Rattle.serde_json.specs.Data.{Data, Items, Members}
use Rattle.serde_json.specs.Written.{compact_text}

mutual
  pub data Json : Type 0 where
    nothing : Json
    flag : Bool → Json
    count : ℕ → Json
    text : List ℕ → Json
    list : Elements → Json
    object : Fields → Json

  pub data Elements : Type 0 where
    no_elements : Elements
    element : Json → Elements → Elements

  pub data Fields : Type 0 where
    no_fields : Fields
    field : List ℕ → Json → Fields → Fields

-- an address, or the bits of a register or an entry: a string, `0x` and hexadecimal digits
abbrev pub hex : ℕ → Json
hex n = text (codes "0x" ++ digits 16 false n)

-- the data of a tree: the members of an object are in the order of their names
abbrev mutual
  pub data_of : Json → Data
  data_of nothing = json.null
  data_of (flag b) = json.boolean b
  data_of (count n) = json.number (json.unsigned n)
  data_of (text s) = json.string s
  data_of (list es) = json.array (items_of es)
  data_of (object fs) = json.object (members_of fs)

  pub items_of : Elements → Items
  items_of no_elements = json.no_items
  items_of (element j es) = json.item (data_of j) (items_of es)

  pub members_of : Fields → Members
  members_of no_fields = json.no_members
  members_of (field name j fs) = json.put name (data_of j) (members_of fs)

-- the text of a tree, with no space
abbrev pub json_text : Json → List ℕ
json_text j = compact_text (data_of j)

-- the version of the form of answers
abbrev pub format : ℕ
format = 1

-- an object with that version among its fields
abbrev pub with_format : Json → Json
with_format nothing = nothing
with_format (flag b) = flag b
with_format (count n) = count n
with_format (text s) = text s
with_format (list es) = list es
with_format (object fs) = object (field (codes "format") (count format) fs)

-- the line of an answer, which is an object
abbrev pub json_line : Json → List ℕ
json_line j = json_text (with_format j) ++ codes "\n"

-- trees as the elements of a list
abbrev pub elements : List Json → Elements
elements [] = no_elements
elements (j ∷ js) = element j (elements js)

-- a list of numbers, and one of addresses
abbrev pub counts : List ℕ → Json
counts ns = list (elements (map count ns))

abbrev pub hexes : List ℕ → Json
hexes ns = list (elements (map hex ns))
