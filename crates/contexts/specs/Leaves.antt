-- The two locks and the four hashes, which policies and fragments name alike: document 01, "Records".

pub data LockKind : Type 0 where
  After Older : LockKind

pub data HashKind : Type 0 where
  Sha256 Hash256 Ripemd160 Hash160 : HashKind
