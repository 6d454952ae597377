-- What answers a challenge (RFC 1994, "Challenge and Response": the digest of the identifier, the secret and the challenge).
use Rattle.std.specs.Prelude.{ℕ, List, ◌∷◌, ◌++◌}
use Rattle.md5.specs.Md5.{md5}
use Rattle.sha2.specs.Sha256.{sha256}
use Rattle.iscsi_chap.specs.declared.algorithm.ChapAlgorithm.{ChapAlgorithm}
use Rattle.iscsi_chap.specs.declared.algorithm.ChapAlgorithm.TheVariants as algorithm
use Rattle.iscsi_chap.specs.declared.digest.ChapDigest.{ChapDigest}
use Rattle.iscsi_chap.specs.declared.digest.ChapDigest.TheVariants as digest

abbrev pub message : (identifier : ℕ) → (secret challenge : List ℕ) → List ℕ
message identifier secret challenge = identifier ∷ (secret ++ challenge)

abbrev pub chap_digest : ChapAlgorithm → (identifier : ℕ) → (secret challenge : List ℕ) → List ℕ
chap_digest algorithm.Sha256 identifier secret challenge = sha256 (message identifier secret challenge)
chap_digest algorithm.Md5 identifier secret challenge = md5 (message identifier secret challenge)

abbrev pub digest_bytes : ChapDigest → List ℕ
digest_bytes (digest.Sha256 bytes) = bytes
digest_bytes (digest.Md5 bytes) = bytes
