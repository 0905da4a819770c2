-- What a partition is told of a connector: its entry in each of the four array properties.
use Rattle.std.specs.Prelude.{ℕ, ◌%◌, List, [], ◌∷◌, ◌++◌, eqb}
use Rattle.words.specs.Pick.{pick}
use Rattle.buffer.specs.Put.{bytes32}
use Rattle.decimal.specs.Decimal.{digits}
use Rattle.kinds.specs.Kinds.{slot}
use Rattle.type_texts.specs.Types.{type_text, with_nul}
use Rattle.property_entries.specs.declared.ArrayProperty.{ArrayProperty}
use Rattle.property_entries.specs.declared.ArrayProperty.TheVariants.{Names, Indexes, Domains, Types}

-- the low 28 bits of an index
abbrev pub low_bits : ℕ → ℕ
low_bits k = k % 268435456

-- the type, a space and the decimal of the index's low 28 bits; but a slot's is C and that decimal
unfoldable pub name_of : ℕ → ℕ → List ℕ
name_of kind k = pick (eqb kind slot) (67 ∷ digits (low_bits k)) (type_text kind ++ (32 ∷ digits (low_bits k)))

-- the power domain of every connector, FFFFFFFF
abbrev pub domain : ℕ
domain = 4294967295

-- the entry of a connector of a kind with index k
unfoldable pub entry : ArrayProperty → ℕ → ℕ → List ℕ
entry Names kind k = with_nul (name_of kind k)
entry Indexes kind k = bytes32 k
entry Domains kind k = bytes32 domain
entry Types kind k = with_nul (type_text kind)

-- what stands before the decimal in a name
unfoldable pub prefix_of : ℕ → List ℕ
prefix_of kind = pick (eqb kind slot) (67 ∷ []) (type_text kind ++ (32 ∷ []))
