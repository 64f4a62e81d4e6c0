-- The bodies of answers, byte for byte.
use Rattle.std.specs.Prelude.{ℕ, List, Bool, true, false, ◌++◌, codes, decimal}
use Rattle.json.specs.Print.{quoted}

-- as JSON writes it
abbrev pub bool_text : Bool → List ℕ
bool_text true = codes "true"
bool_text false = codes "false"

abbrev pub error_text : List ℕ → List ℕ
error_text text = codes "{\"error\":" ++ quoted text ++ codes "}"

abbrev pub contents_text : ℕ → ℕ → List ℕ → List ℕ
contents_text id first content =
    codes "{\"logchunks\":[{\"content\":" ++ quoted content ++ codes ",\"firstline\":"
    ++ decimal first ++ codes ",\"logid\":" ++ decimal id
    ++ codes "}],\"meta\":{}}"

abbrev pub log_text : ℕ → List ℕ → Bool → ℕ → List ℕ
log_text id name complete lines =
    codes "{\"logs\":[{\"complete\":" ++ bool_text complete ++ codes ",\"logid\":" ++ decimal id
    ++ codes ",\"name\":" ++ quoted name
    ++ codes ",\"num_lines\":" ++ decimal lines ++ codes ",\"type\":\"s\"}],\"meta\":{}}"
