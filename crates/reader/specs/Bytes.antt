-- The bytes of the tokens that a reply adds to the structure block.
use Rattle.std.specs.Prelude.{ℕ, ◌+◌, ◌-◌, List, ◌++◌, length, replicate}
use Rattle.buffer.specs.Put.{bytes32}
use Rattle.devtree.specs.Tokens.{up4}

-- the bytes bs, and zeros up to `size` bytes in all
unfoldable pub filled : ℕ → List ℕ → List ℕ
filled size bs = bs ++ replicate (size - length bs) 0

-- a begin-node token: its word, the name, a NUL, and zeros to a multiple of four
unfoldable pub begin_bytes : List ℕ → List ℕ
begin_bytes name = bytes32 1 ++ filled (up4 (length name + 1)) name

-- a property token: its word, the value's length, the name's offset in the strings block, the value, and zeros to a multiple of four
unfoldable pub prop_bytes : ℕ → List ℕ → List ℕ
prop_bytes offset value = bytes32 3 ++ (bytes32 (length value) ++ (bytes32 offset ++ filled (up4 (length value)) value))

-- an end-node token
abbrev pub end_bytes : List ℕ
end_bytes = bytes32 2

-- the end token
abbrev pub last_bytes : List ℕ
last_bytes = bytes32 9
