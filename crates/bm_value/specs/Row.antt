-- The table of first bytes (MessagePack specification, "Formats").
use Rattle.std.specs.Prelude.{ℕ, ◌-◌, ◌^◌, true, false, nat_lt, ◌==◌, if◌then◌else◌}
use Rattle.std.specs.Int.{Width, w8, w16, w32, w64, cast_signed}
use Rattle.bm_value.specs.declared.row.Wide.{Wide}
use Rattle.bm_value.specs.declared.row.Wide.TheVariants as wide
use Rattle.bm_value.specs.declared.row.Size.TheVariants as size
use Rattle.bm_value.specs.declared.row.Plain.TheVariants as plain
use Rattle.bm_value.specs.declared.row.Row.{Row}
use Rattle.bm_value.specs.declared.row.Row.TheVariants as rows

abbrev pub width : Wide → Width
width wide.One = w8
width wide.Two = w16
width wide.Four = w32
width wide.Eight = w64

-- the numbers that a field of this width has are below this
abbrev pub limit : Wide → ℕ
limit wide.One = 2 ^ 8
limit wide.Two = 2 ^ 16
limit wide.Four = 2 ^ 32
limit wide.Eight = 2 ^ 64

-- the rows of the first bytes from c0 to df
abbrev pub middle_row : ℕ → Row
middle_row b =
    if b == 0xc0 then rows.Plain plain.Nil else
    if b == 0xc1 then rows.Reserved else
    if b == 0xc2 then rows.Plain (plain.Bool false) else
    if b == 0xc3 then rows.Plain (plain.Bool true) else
    if b == 0xc4 then rows.Plain (plain.Bin (size.Field wide.One)) else
    if b == 0xc5 then rows.Plain (plain.Bin (size.Field wide.Two)) else
    if b == 0xc6 then rows.Plain (plain.Bin (size.Field wide.Four)) else
    if b == 0xc7 then rows.Plain (plain.Ext (size.Field wide.One)) else
    if b == 0xc8 then rows.Plain (plain.Ext (size.Field wide.Two)) else
    if b == 0xc9 then rows.Plain (plain.Ext (size.Field wide.Four)) else
    if b == 0xca then rows.Plain plain.Bits32 else
    if b == 0xcb then rows.Plain plain.Bits64 else
    if b == 0xcc then rows.Plain (plain.Unsigned wide.One) else
    if b == 0xcd then rows.Plain (plain.Unsigned wide.Two) else
    if b == 0xce then rows.Plain (plain.Unsigned wide.Four) else
    if b == 0xcf then rows.Plain (plain.Unsigned wide.Eight) else
    if b == 0xd0 then rows.Plain (plain.Signed wide.One) else
    if b == 0xd1 then rows.Plain (plain.Signed wide.Two) else
    if b == 0xd2 then rows.Plain (plain.Signed wide.Four) else
    if b == 0xd3 then rows.Plain (plain.Signed wide.Eight) else
    if b == 0xd4 then rows.Plain (plain.Ext (size.Here 1)) else
    if b == 0xd5 then rows.Plain (plain.Ext (size.Here 2)) else
    if b == 0xd6 then rows.Plain (plain.Ext (size.Here 4)) else
    if b == 0xd7 then rows.Plain (plain.Ext (size.Here 8)) else
    if b == 0xd8 then rows.Plain (plain.Ext (size.Here 16)) else
    if b == 0xd9 then rows.Plain (plain.Str (size.Field wide.One)) else
    if b == 0xda then rows.Plain (plain.Str (size.Field wide.Two)) else
    if b == 0xdb then rows.Plain (plain.Str (size.Field wide.Four)) else
    if b == 0xdc then rows.Array (size.Field wide.Two) else
    if b == 0xdd then rows.Array (size.Field wide.Four) else
    if b == 0xde then rows.Map (size.Field wide.Two) else
    rows.Map (size.Field wide.Four)

-- the row of a first byte
unfoldable pub row : ℕ → Row
row b =
    if nat_lt b 0x80 then rows.Plain (plain.Small (cast_signed w8 b)) else
    if nat_lt b 0x90 then rows.Map (size.Here (b - 0x80)) else
    if nat_lt b 0xa0 then rows.Array (size.Here (b - 0x90)) else
    if nat_lt b 0xc0 then rows.Plain (plain.Str (size.Here (b - 0xa0))) else
    if nat_lt b 0xe0 then middle_row b else
    rows.Plain (plain.Small (cast_signed w8 b))
