-- What a remark says. Its line for people and its object for programs are two forms of this one
-- thing, so each says what the other says. The object also has members that the line hasn't.
use Rattle.std.specs.Prelude.{ℕ, List, [], ◌∷◌, ◌++◌, codes, decimal, map}
use Rattle.std.specs.List.{flat_map}
use Rattle.std.specs.Net.Text.{socket_text}
use Rattle.std.specs.declared.net.socket_addr.SocketAddr.{SocketAddr}
use Rattle.json.specs.Print.{quoted}
use Rattle.bm_operator.specs.declared.field.RemarkField.{RemarkField as CodeField}
use Rattle.bm_operator.specs.declared.field.RemarkField.TheVariants as code
use Rattle.bm_operator.specs.declared.field.Shape.{Shape}
use Rattle.bm_operator.specs.declared.field.Shape.TheVariants.{Line, Object}
use Rattle.bm_operator.specs.OneLine.{one_line}

-- A field: the words before it in the line, its key in the object, and its value. A name is
-- anybody's text, a word is one of ours. A member is in the object alone.
pub data RemarkField : Type 0 where
  of_number : List ℕ → List ℕ → ℕ → RemarkField
  of_name : List ℕ → List ℕ → List ℕ → RemarkField
  of_word : List ℕ → List ℕ → List ℕ → RemarkField
  of_address : List ℕ → List ℕ → SocketAddr → RemarkField
  of_member : List ℕ → ℕ → RemarkField

-- the kind of a remark, its fields, and the words behind the last of them
pub record Told : Type 0 where
  pub kind : List ℕ
  pub fields : List RemarkField
  pub tail : List ℕ

-- a field of the code as what it says
abbrev pub field_view : CodeField → RemarkField
field_view (code.Number lead key n) = of_number lead.now key.now n
field_view (code.Name lead key text) = of_name lead.now key.now text.now
field_view (code.Word lead key text) = of_word lead.now key.now text.now
field_view (code.Address lead key a) = of_address lead.now key.now a
field_view (code.Member key n) = of_member key.now n

abbrev pub fields_view : List CodeField → List RemarkField
fields_view fields = map field_view fields

-- a field in the line
abbrev pub field_text : RemarkField → List ℕ
field_text (of_number lead key n) = lead ++ decimal n
field_text (of_name lead key text) = lead ++ one_line text
field_text (of_word lead key text) = lead ++ text
field_text (of_address lead key a) = lead ++ socket_text a
field_text (of_member key n) = []

-- the line, with its line end
abbrev pub line_of : Told → List ℕ
line_of told = flat_map field_text told.fields ++ (told.tail ++ 10 ∷ [])

-- a value as JSON has it
abbrev pub value_text : RemarkField → List ℕ
value_text (of_number lead key n) = decimal n
value_text (of_name lead key text) = quoted text
value_text (of_word lead key text) = quoted text
value_text (of_address lead key a) = quoted (socket_text a)
value_text (of_member key n) = decimal n

abbrev pub key_of : RemarkField → List ℕ
key_of (of_number lead key n) = key
key_of (of_name lead key text) = key
key_of (of_word lead key text) = key
key_of (of_address lead key a) = key
key_of (of_member key n) = key

-- a field in the object
abbrev pub member_text : RemarkField → List ℕ
member_text field = codes ",\"" ++ (key_of field ++ (codes "\":" ++ value_text field))

-- the object, with its line end: first the kind and the milliseconds, then the fields
abbrev pub object_of : ℕ → Told → List ℕ
object_of ms told =
    codes "{\"remark\":\"" ++ (told.kind ++ (codes "\",\"ms\":" ++ (decimal ms
    ++ (flat_map member_text told.fields ++ codes "}\n"))))

-- what is written in this form
abbrev pub shaped : Shape → Told → List ℕ
shaped Line told = line_of told
shaped (Object ms) told = object_of ms told
